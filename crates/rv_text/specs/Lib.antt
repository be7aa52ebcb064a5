pub mod Words
pub mod Names
pub mod Numbers
pub mod Sections
