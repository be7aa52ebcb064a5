pub mod Tables
pub mod Adding
pub mod Units
