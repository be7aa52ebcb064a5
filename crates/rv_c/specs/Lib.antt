pub mod Said
pub mod Endings
pub mod Calls
