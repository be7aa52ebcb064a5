pub mod Ends
pub mod Windows
