pub mod Edits
pub mod Rows
pub mod Spans
pub mod Tables
