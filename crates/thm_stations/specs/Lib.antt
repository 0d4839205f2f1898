pub mod Jobs
pub mod Written
pub mod Mixture
pub mod Isolated
pub mod LostPreset
pub mod Reached
