pub mod Bodies
pub mod Crates
pub mod Names
