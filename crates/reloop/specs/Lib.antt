pub mod Checks
pub mod Fits
pub mod Graphs
pub mod Laws
pub mod Plans
pub mod Searches
pub mod Shaped
pub mod Shapes
