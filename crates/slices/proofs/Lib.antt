pub mod Anded
pub mod Splice
pub mod Sweep
pub mod Parts
