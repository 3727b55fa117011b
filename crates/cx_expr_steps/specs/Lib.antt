pub mod Designators
pub mod Steps
pub mod Views
