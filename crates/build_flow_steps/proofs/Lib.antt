pub mod Along
pub mod Machine
pub mod Positions
pub mod Waiting
