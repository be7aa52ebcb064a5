pub mod Notes
pub mod Sending
pub mod Turns
