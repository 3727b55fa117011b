pub mod Assoc
pub mod Definitions
pub mod Tags
