pub mod Stepping
pub mod Premises
pub mod Laws
