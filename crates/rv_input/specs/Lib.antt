pub mod Coming
pub mod Whole
