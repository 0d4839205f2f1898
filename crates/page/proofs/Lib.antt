pub mod InLimits
pub mod Lookup
mod Signed
mod Ranges
