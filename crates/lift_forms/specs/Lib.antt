pub mod BitFields
pub mod Given
pub mod LawsTyping
pub mod LawsValid
pub mod Operators
pub mod Places
