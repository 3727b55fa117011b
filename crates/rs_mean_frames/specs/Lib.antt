pub mod Behave
pub mod Laws
