pub mod Ascending
pub mod Constants
pub mod Orders
pub mod Parts
pub mod Views
