pub mod Behind
pub mod Codes
pub mod Index
pub mod Numbers
pub mod Reached
pub mod Tables
pub mod Views
pub mod Walks
