pub mod Ordered
pub mod Heard
