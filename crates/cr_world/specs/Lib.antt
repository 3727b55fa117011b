pub mod Held
pub mod Known
pub mod Laws
pub mod Texts
pub mod World
