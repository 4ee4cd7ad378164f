pub mod Clean
pub mod Slices
pub mod Rules
pub mod Gives
pub mod Steps
