pub mod Budget
pub mod Examples
pub mod Pieces
pub mod Whole
