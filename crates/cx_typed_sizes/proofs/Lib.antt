pub mod Bytes
pub mod Pointers
