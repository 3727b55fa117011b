pub mod Blocks
pub mod Scopes
pub mod Texts
