pub mod Blocks
pub mod Functions
pub mod Names
pub mod Wanted
