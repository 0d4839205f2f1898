pub mod Usable
pub mod Buffers
pub mod Step
