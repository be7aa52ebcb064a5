pub mod Numbered
pub mod ReadAll
pub mod Returns
pub mod Wrote
