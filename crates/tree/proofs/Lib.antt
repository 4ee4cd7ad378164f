pub mod Levels
pub mod Pieces
pub mod Widths
pub mod Slots
pub mod Paths
pub mod Places
pub mod Binding
