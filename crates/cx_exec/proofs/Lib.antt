pub mod Between
pub mod Looping
pub mod Outcomes
pub mod Runs
pub mod Sizes
