pub mod Acts
pub mod Counts
pub mod Stages
pub mod Deeds
pub mod Scripted
pub mod Carried
pub mod Laws
