pub mod Called
pub mod Turned
