pub mod Devices
pub mod Faults
pub mod Parts
pub mod Sections
pub mod Written
