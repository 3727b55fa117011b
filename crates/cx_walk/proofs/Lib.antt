pub mod Forms
pub mod Opened
