pub mod Commas
pub mod Examples
