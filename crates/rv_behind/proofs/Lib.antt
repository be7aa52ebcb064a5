pub mod Zips
mod Ranging
pub mod Doing
pub mod Fitting
