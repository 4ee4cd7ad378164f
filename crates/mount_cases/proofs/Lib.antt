pub mod Plain
pub mod Down
