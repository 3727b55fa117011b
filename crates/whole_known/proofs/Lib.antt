pub mod Alike
mod CallocKeys
pub mod Declared
pub mod Kept
