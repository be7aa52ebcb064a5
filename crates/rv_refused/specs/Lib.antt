pub mod Filters
pub mod Following
pub mod Kept
pub mod Looking
pub mod Refusals
