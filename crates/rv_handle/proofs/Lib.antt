mod Handles
mod Values
