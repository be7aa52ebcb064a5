pub mod Appending
mod Looking
pub mod Tying
mod UnderWay
