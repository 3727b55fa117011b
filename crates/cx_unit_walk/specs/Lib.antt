pub mod Functions
pub mod Kept
pub mod Loops
pub mod Views
pub mod Walks
