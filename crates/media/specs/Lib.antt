pub mod Memory
pub mod Tape
pub mod Turning
pub mod Fault
pub mod Sizes
