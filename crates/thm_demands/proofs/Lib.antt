pub mod Exact
pub mod Numbered
pub mod Promised
pub mod Unique
