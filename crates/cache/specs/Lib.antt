pub mod Rows
pub mod Layer
pub mod Whole
