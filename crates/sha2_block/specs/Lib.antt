pub mod Variant
pub mod Bytes
pub mod Words
pub mod Block
pub mod Window
pub mod Schedule
