pub mod Bits
pub mod Building
pub mod Calls
pub mod Extents
pub mod Places
pub mod Rows
