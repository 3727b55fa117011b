pub mod Ending
pub mod Lists
pub mod Opened
pub mod Sides
