pub mod Trees
pub mod Tables
pub mod FlatView
pub mod FlatUnits
