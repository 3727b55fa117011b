pub mod Filled
pub mod Held
pub mod Pieces
