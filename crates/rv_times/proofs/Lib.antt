pub mod Cutting
pub mod Keeping
