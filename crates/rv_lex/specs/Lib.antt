pub mod Kinds
pub mod Faults
pub mod Characters
pub mod Literals
pub mod Front
pub mod Lexes
pub mod Spaced
pub mod Words
