pub mod Joined
pub mod Same
pub mod Adding
pub mod Steady
pub mod Due
pub mod Loading
