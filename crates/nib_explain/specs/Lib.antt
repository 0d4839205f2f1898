pub mod Fold
pub mod Tally
pub mod Words
