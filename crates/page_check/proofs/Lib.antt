pub mod Ten
pub mod Listing
pub mod Exactly
pub mod Chosen
