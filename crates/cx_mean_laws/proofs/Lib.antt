pub mod AlikeMoves
pub mod AlikePieces
pub mod AlikeValues
pub mod Unfolded
