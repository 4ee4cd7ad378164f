pub mod Labels
pub mod Numbers
