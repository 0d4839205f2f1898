pub mod Cases
pub mod Useless
pub mod Edges
