pub mod Bars
pub mod Lanes
pub mod Letters
pub mod Svg
pub mod Titles
