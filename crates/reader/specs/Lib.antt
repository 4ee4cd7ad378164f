pub mod Fetched
pub mod Gather
pub mod Header
pub mod Sought
pub mod Parts
pub mod Calls
