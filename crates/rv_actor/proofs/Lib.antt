pub mod Asked
pub mod Served
