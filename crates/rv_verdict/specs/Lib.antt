pub mod Audits
pub mod Brought
pub mod Ends
pub mod Explained
pub mod Explaining
pub mod Given
pub mod Said
pub mod Texts
