pub mod Views
pub mod Designators
pub mod Landing
pub mod Paths
