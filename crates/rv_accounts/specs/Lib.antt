pub mod Seen
pub mod WithoutSettles
pub mod Explained
pub mod Followed
pub mod Given
