pub mod Fills
pub mod Halts
pub mod Nodes
pub mod Parts
pub mod Ready
pub mod Steps
pub mod Taken
