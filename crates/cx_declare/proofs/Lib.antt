pub mod Depths
pub mod Lengths
