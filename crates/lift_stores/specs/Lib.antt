pub mod Fits
pub mod Names
pub mod Texts
pub mod Views
