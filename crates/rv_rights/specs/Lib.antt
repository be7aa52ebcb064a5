pub mod Following
pub mod Rights
