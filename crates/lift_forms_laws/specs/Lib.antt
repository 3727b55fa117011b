pub mod Gives
pub mod LawsBits
pub mod LawsBoth
pub mod LawsMeaning
