pub mod Answers
pub mod Effected
pub mod Heap
pub mod Outgoing
pub mod Pieces
pub mod Rules
pub mod Stored
pub mod Texts
