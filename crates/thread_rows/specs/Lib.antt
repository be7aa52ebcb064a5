pub mod OneTurn
pub mod Hearing
pub mod Fitting
