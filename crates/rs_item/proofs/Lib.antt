pub mod Levels
pub mod Chosen
