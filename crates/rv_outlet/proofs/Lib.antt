pub mod Ordered
pub mod Written
