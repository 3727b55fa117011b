pub mod Given
pub mod Laws
pub mod Literals
pub mod Members
