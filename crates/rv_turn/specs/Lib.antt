pub mod Histories
pub mod Prefixes
pub mod Views
pub mod Rules
pub mod Acts
pub mod Passes
pub mod Faults
