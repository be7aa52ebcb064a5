pub mod Completed
pub mod EndNames
pub mod Jumps
