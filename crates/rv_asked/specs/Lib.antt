pub mod Asked
pub mod Holding
pub mod Tabled
pub mod Times
