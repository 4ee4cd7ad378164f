pub mod Runs
pub mod Layers
pub mod Exchanges
