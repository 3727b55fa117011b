pub mod Entries
pub mod Modules
pub mod Stages
