pub mod Help
pub mod Screen
pub mod Cut
pub mod Texts
pub mod Console
