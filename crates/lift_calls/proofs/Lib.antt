pub mod Kept
pub mod Nodes
pub mod Owed
pub mod Returns
pub mod Whole
pub mod Worked
