pub mod Stamps
