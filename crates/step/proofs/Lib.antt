pub mod Sound
pub mod WorkReady
