pub mod Written
pub mod Denied
pub mod Nevers
pub mod Firings
pub mod Telling
