pub mod Kinds
pub mod JobWords
pub mod Reading
pub mod Writing
