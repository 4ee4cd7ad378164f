pub mod Limits
pub mod Texts
