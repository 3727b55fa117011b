pub mod Bodies
pub mod Chains
pub mod Jumps
pub mod Labels
pub mod Nests
pub mod Places
pub mod Sorting
pub mod Texts
