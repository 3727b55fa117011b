pub mod LawsOperators
pub mod LawsPointers
