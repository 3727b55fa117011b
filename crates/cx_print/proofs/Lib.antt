pub mod PartLemmas
pub mod PrintingLemmas
