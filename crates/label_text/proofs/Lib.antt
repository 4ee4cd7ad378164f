pub mod Printing
pub mod Reading
mod Roots
mod Splits
