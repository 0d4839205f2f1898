pub mod Runs
pub mod Promises
pub mod Exact
pub mod Numbered
