pub mod Room
pub mod Jobs
pub mod Runs
pub mod Walks
