pub mod Shapes
pub mod Back
pub mod Again
pub mod First
