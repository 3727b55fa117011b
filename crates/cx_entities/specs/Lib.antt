pub mod Entities
pub mod Linkage
pub mod Views
