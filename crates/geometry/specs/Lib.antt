pub mod Limits
pub mod Of
pub mod Label
