pub mod Calls
pub mod Fields
pub mod Finds
pub mod Records
pub mod Views
