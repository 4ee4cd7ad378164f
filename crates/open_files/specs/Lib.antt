pub mod Files
pub mod Steps
pub mod Reading
pub mod Sentence
