pub mod Nodes
pub mod Stacks
pub mod Points
pub mod Machines
pub mod Moves
pub mod Heights
pub mod Needs
pub mod AtOnce
