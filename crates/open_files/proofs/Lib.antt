pub mod Closing
pub mod Names
