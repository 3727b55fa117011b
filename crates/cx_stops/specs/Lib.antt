pub mod Full
pub mod Runs
