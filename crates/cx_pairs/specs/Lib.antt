pub mod Callees
pub mod Choices
pub mod Members
pub mod Records
