pub mod Exports
pub mod Following
pub mod Kept
pub mod Said
