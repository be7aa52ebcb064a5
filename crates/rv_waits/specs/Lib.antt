pub mod Following
pub mod Lasting
pub mod Waits
