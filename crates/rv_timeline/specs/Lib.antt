pub mod Following
pub mod Timelines
