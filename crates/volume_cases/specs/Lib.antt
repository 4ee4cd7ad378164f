pub mod Starts
pub mod Headers
pub mod Names
pub mod Lists
pub mod InUse
pub mod Paths
