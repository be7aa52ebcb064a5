pub mod Columns
pub mod Status
