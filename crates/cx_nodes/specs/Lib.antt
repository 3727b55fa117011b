pub mod Calls
pub mod Members
pub mod Pointers
pub mod Trailing
