pub mod Bodies
pub mod Distinct
pub mod Nodes
pub mod Places
pub mod Reached
