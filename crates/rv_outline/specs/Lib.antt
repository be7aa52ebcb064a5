pub mod Drafts
pub mod Profiles
pub mod Priorities
pub mod Handlers
pub mod Barriers
pub mod ProtectedUnits
pub mod Declarations
pub mod Shapes
