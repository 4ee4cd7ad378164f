pub mod Key
pub mod Label
pub mod Laws
pub mod Lines
pub mod Printed
pub mod Seen
pub mod Sentence
pub mod Values
