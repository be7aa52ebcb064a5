pub mod Numbers
pub mod Asked
pub mod Carried
pub mod Made
pub mod States
