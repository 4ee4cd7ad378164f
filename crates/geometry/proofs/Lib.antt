pub mod Counting
pub mod Starts
pub mod Bounds
pub mod Trees
