pub mod Counts
pub mod Firsts
pub mod Full
pub mod Opened
