pub mod Depths
pub mod Shallow
pub mod Turns
