pub mod FaultLemmas
mod FileLemmas
pub mod HeldLemmas
pub mod SinkLemmas
