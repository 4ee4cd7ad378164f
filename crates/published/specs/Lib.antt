pub mod Built
pub mod Publisher
pub mod Reading
