pub mod Profiles
pub mod Conforms
