mod Counting
mod Rowing
pub mod Steps
