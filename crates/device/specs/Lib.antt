pub mod Area
pub mod Answer
pub mod Program
pub mod Run
pub mod Layer
