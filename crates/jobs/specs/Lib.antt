pub mod Cycles
pub mod Writing
pub mod Reading
pub mod Numbers
