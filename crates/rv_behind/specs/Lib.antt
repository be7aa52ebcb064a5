pub mod Events
pub mod Acting
pub mod Adding
