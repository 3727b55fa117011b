pub mod Actions
pub mod Fields
pub mod Forms
pub mod Lists
pub mod Opened
