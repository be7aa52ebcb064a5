pub mod Order
pub mod Hearing
