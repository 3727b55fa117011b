pub mod Params
pub mod Steps
pub mod Typedefs
pub mod Written
