pub mod Numbers
pub mod Single
pub mod Typedefs
