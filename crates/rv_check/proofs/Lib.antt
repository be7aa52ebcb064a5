pub mod Checked
pub mod Checking
pub mod Commanded
pub mod Judged
pub mod Loaded
pub mod Stepping
