pub mod Loops
pub mod Objects
pub mod Walks
