pub mod Names
pub mod Covered
pub mod Notes
pub mod Changes
pub mod Telling
