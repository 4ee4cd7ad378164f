pub mod Padding
pub mod Hash
pub mod Answer
pub mod Laws
pub mod Buffer
pub mod Message
