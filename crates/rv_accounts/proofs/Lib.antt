pub mod Growing
pub mod Staying
pub mod FollowedLater
pub mod Giving
pub mod Queued
pub mod HandedCalls
