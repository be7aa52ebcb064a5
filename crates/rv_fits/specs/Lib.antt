pub mod Calls
pub mod Fits
pub mod Passing
pub mod Alike
