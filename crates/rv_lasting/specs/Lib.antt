pub mod Calls
pub mod Lasting
pub mod Lines
pub mod Rows
pub mod Tracks
