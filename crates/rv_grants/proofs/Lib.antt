pub mod Agreeing
mod Appending
pub mod Between
mod Changing
