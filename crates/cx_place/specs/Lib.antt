pub mod Initialisers
pub mod Placing
pub mod Views
