pub mod Actors
pub mod Choices
pub mod Files
