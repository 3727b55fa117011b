pub mod Growing
pub mod Opened
pub mod PartLemmas
