pub mod Targets
pub mod Numbered
pub mod Spots
