pub mod Declared
pub mod Turns
