pub mod Kept
pub mod Newest
pub mod Orders
pub mod Steps
