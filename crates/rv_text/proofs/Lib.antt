pub mod Bytes
pub mod FirstParts
pub mod Digits
pub mod NextAt
pub mod NextSection
pub mod DottedName
