pub mod Openings
pub mod Prefixes
pub mod UnitTexts
pub mod Whole
