pub mod Order
pub mod Telling
pub mod Writing
