pub mod Mount
pub mod Law
