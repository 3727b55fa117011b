pub mod Arrays
pub mod Derivation
pub mod Members
pub mod Written
