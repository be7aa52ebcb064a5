pub mod Changes
pub mod Following
