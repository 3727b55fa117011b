pub mod Asked
pub mod Declarations
pub mod Facts
