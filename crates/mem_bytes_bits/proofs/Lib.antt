pub mod ByBytes
pub mod Worked
