pub mod Flows
pub mod Machine
pub mod Sources
pub mod Views
