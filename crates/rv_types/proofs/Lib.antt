pub mod Pushed
pub mod Sharing
pub mod Ended
pub mod Chains
pub mod Covered
pub mod Found
