pub mod Scopes
pub mod BodyRegions
pub mod Regions
