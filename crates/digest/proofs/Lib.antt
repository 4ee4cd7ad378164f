pub mod Buffer
pub mod Padding
pub mod Blocks
pub mod Output
pub mod Joining
