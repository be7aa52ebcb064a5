pub mod Used
pub mod Bound
pub mod HasBody
