pub mod Builder
pub mod Example
pub mod Flows
pub mod Labels
pub mod Parts
pub mod Points
