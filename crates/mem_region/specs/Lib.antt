pub mod Held
pub mod Layout
pub mod Packed
pub mod Region
