pub mod Finds
pub mod Operators
pub mod Views
