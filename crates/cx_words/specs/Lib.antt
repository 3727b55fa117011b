pub mod Beginnings
pub mod Continuations
