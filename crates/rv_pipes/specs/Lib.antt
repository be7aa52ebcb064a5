pub mod Lines
pub mod Reads
pub mod Carrying
