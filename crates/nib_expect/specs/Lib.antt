pub mod Expect
pub mod Words
