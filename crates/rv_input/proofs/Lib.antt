mod Told
mod FirstLines
mod Passing
pub mod WholeLines
