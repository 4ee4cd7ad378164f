pub mod Refusal
pub mod Sentence
pub mod Calls
pub mod Mount
pub mod Image
pub mod Paths
pub mod Law
