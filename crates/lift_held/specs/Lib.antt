pub mod Example
pub mod Held
