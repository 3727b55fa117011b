mod Worked
pub mod Counts
