pub mod Counts
pub mod Following
pub mod Hits
