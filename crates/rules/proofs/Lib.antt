pub mod ByKind
pub mod Passed
