pub mod Answers
pub mod Entries
pub mod Machines
pub mod Returns
pub mod Statics
pub mod Steps
