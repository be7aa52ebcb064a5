pub mod Behind
pub mod Following
pub mod Keeping
mod More
