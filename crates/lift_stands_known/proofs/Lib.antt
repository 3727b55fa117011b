pub mod Answered
pub mod Effects
pub mod Texts
pub mod Values
pub mod Worked
