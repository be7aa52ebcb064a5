pub mod Deciding
pub mod Covering
pub mod Spanning
pub mod Objects
pub mod Adding
pub mod Changing
pub mod Named
pub mod Appending
