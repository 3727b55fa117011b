pub mod Answered
pub mod Outcomes
pub mod Short
pub mod Started
pub mod Unasked
