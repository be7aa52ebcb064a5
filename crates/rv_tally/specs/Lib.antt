pub mod Guarding
pub mod Tallying
pub mod Watching
pub mod Wording
pub mod Spending
pub mod Denied
