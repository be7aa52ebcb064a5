pub mod Behind
pub mod Following
pub mod Kept
pub mod States
