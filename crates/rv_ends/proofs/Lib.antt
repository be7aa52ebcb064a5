mod Sound
mod Heard
pub mod Whole
mod Courses
mod Meanings
mod Steps
pub mod Counting
