pub mod Parts
pub mod Keeps
mod Ends
mod Behind
