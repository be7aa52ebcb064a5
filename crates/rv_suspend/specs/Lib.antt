pub mod Suspension
