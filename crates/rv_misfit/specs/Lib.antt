pub mod Misfits
pub mod Telling
pub mod Asked
