pub mod Limits
pub mod Suspensions
pub mod Queues
pub mod Versions
pub mod Waiting
