pub mod Behind
pub mod Called
pub mod Kept
pub mod Kinds
pub mod Places
pub mod Views
