pub mod Explanations
pub mod Following
pub mod Ties
pub mod Words
