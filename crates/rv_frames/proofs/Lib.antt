pub mod Asking
pub mod Begins
pub mod Pushes
pub mod Arrivals
pub mod AtOnce
pub mod Asks
pub mod Rests
pub mod Passing
