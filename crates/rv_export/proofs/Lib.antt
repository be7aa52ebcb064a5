pub mod Appending
pub mod Finding
pub mod Keeping
pub mod Putting
pub mod ReadingBack
