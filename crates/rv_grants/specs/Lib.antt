pub mod Differences
pub mod Grants
