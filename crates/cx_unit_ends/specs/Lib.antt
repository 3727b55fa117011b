pub mod Ends
pub mod Merged
pub mod Numbered
pub mod Refused
