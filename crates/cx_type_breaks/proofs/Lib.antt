pub mod Outlines
pub mod PartRules
pub mod Unnamed
