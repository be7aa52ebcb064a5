pub mod Tallies
pub mod Calls
pub mod Lists
