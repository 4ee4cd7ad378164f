pub mod Joins
pub mod Rows
pub mod Over
pub mod Steps
pub mod Digests
