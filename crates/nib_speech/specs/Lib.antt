pub mod Expects
pub mod Folds
pub mod Pieces
pub mod Speech
