pub mod Checks
pub mod CommandLines
pub mod DeviceFaults
pub mod Purposes
pub mod ScriptLines
pub mod Scripts
pub mod StepFaults
