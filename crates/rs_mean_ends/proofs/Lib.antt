pub mod Ending
mod Examples
pub mod Labels
