pub mod Blocks
pub mod Called
pub mod Comes
pub mod Effects
pub mod Moves
pub mod States
pub mod Texts
pub mod Wanting
