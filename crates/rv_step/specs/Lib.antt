pub mod Names
pub mod StepWords
pub mod Ends
pub mod StepText
pub mod Lookup
