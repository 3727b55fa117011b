pub mod Accesses
pub mod Blocks
pub mod Called
pub mod Does
pub mod Effects
pub mod Moves
pub mod States
pub mod Steps
