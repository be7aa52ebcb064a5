pub mod LineBytes
pub mod Listing
pub mod Putting
pub mod Spelling
pub mod TextLines
mod Texting
pub mod Timeless
