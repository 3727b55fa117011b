mod Advancing
mod Alike
mod Begun
mod Evaluated
mod Going
pub mod Several
