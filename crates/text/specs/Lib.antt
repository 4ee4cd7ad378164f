pub mod Bytes
pub mod Hex
pub mod HexText
pub mod Laws
pub mod Name
pub mod Number
pub mod Sum
