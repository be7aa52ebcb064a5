pub mod Afoot
pub mod Counts
pub mod Courses
pub mod Ends
pub mod Explained
pub mod Following
pub mod Tally
pub mod Texts
