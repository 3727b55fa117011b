pub mod Extents
pub mod Pairwise
pub mod Qualifying
