pub mod Call
pub mod Code
pub mod Line
pub mod Name
pub mod Reply
