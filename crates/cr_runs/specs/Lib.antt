pub mod Laws
pub mod Owes
pub mod Runs
