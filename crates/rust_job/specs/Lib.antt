pub mod Ends
pub mod Meaning
