pub mod Operators
pub mod Pointers
pub mod Worked
