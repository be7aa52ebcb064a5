pub mod Pacing
pub mod Durations
