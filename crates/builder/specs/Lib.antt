pub mod Fault
pub mod Check
pub mod Build
pub mod Parts
pub mod InParts
pub mod Above
