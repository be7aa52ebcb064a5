pub mod Asks
pub mod Misused
