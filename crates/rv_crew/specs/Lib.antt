pub mod Teams
pub mod Crews
pub mod Hiring
pub mod Tasks
pub mod Abandoning
