pub mod Indexes
pub mod Landings
pub mod Members
