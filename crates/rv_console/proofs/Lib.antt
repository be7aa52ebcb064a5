mod Paging
pub mod Looking
mod Turning
mod Writing
