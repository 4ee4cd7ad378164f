pub mod Anchored
pub mod Layer
