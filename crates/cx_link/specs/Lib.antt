pub mod Chains
pub mod Mains
