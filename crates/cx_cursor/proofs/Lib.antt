pub mod Readers
pub mod Scopes
pub mod Turns
