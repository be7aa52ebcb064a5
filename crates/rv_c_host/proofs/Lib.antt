mod Unrecorded
mod Coming
mod Ending
