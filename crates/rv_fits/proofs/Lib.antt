pub mod Both
pub mod Parts
pub mod Found
pub mod Keeps
mod Alike
