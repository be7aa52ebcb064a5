pub mod Exits
pub mod Alongs
