pub mod Ahead
pub mod Places
pub mod Sorted
