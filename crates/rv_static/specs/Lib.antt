pub mod Meanings
pub mod Operators
pub mod Static
pub mod Told
pub mod Ranges
