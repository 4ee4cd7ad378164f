pub mod Reading
pub mod Volumes
pub mod Shapes
