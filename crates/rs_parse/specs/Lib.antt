pub mod Cargo
pub mod Crates
pub mod Laws
pub mod Module
pub mod Outline
pub mod Reading
