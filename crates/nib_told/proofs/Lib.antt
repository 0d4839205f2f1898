pub mod Counts
pub mod Forward
pub mod Programs
