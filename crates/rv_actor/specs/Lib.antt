pub mod Asking
pub mod Outcomes
pub mod Serving
