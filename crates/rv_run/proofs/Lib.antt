pub mod Commanded
pub mod Ended
pub mod Served
pub mod Opened
pub mod Prepared
pub mod Alone
