pub mod Schedule
pub mod Rounds
pub mod Window
pub mod Recursion
pub mod Bitwise
pub mod Rotations
