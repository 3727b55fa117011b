pub mod Called
pub mod Reach
pub mod Stays
