mod Adding
mod Choosing
pub mod RunPicked
