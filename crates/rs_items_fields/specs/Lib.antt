pub mod Fields
pub mod LawsFields
