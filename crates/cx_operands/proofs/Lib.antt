pub mod Scalars
pub mod Values
