pub mod Lines
pub mod Phrases
pub mod Words
