mod Finding
mod Unset
pub mod Staying
pub mod Timing
