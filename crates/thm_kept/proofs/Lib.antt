pub mod Choice
pub mod Commands
pub mod Views
pub mod Sequences
pub mod Outputs
pub mod Marks
pub mod Lengths
pub mod Kept
