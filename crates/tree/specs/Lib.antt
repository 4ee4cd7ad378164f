pub mod Shape
pub mod Tree
pub mod Path
pub mod Laws
