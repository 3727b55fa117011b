pub mod Asked
pub mod Below
pub mod Declarators
pub mod Exprs
pub mod Initialisers
pub mod Knot
pub mod Specifiers
pub mod Tails
