pub mod Regions
pub mod BodyNames
