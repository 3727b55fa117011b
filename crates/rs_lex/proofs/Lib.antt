pub mod LexLemmas
pub mod TableLemmas
