pub mod Behind
pub mod FirstOf
pub mod Noted
pub mod Viewed
