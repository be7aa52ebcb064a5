mod Longer
mod Meeting
mod KeptBySteps
mod KeptByCuts
mod Acts
mod Closing
pub mod Passes
