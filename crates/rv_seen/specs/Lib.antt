pub mod At
pub mod Begun
pub mod Names
pub mod Ranges
