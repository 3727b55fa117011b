pub mod Bodies
pub mod Externals
pub mod NameLemmas
pub mod Walks
