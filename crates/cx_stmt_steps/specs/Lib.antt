pub mod Blocks
pub mod CaseNumbers
pub mod Changes
pub mod Labels
pub mod Literals
pub mod Steps
pub mod Views
