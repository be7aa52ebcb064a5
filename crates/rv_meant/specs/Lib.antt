pub mod Asks
pub mod Settles
pub mod Nested
pub mod Histories
pub mod Explained
pub mod Told
pub mod Holds
pub mod Answers
