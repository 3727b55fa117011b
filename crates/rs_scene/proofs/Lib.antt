pub mod Begun
pub mod Sequences
pub mod Spotted
