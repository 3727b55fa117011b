pub mod Blocks
pub mod Runs
pub mod Sites
pub mod States
