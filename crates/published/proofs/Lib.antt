pub mod Twins
pub mod Within
pub mod Images
pub mod Worth
