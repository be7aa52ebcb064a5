pub mod Seen
pub mod Numbered
pub mod Attached
pub mod Facts
pub mod Decisions
pub mod Pages
pub mod Going
pub mod Forgetting
