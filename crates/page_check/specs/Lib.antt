pub mod Check
pub mod Report
