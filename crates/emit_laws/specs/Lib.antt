pub mod Closed
pub mod Counts
pub mod Covers
pub mod LawsShape
pub mod LawsText
pub mod LawsTyping
pub mod LawsValid
pub mod Tells
