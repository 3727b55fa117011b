pub mod LawsNames
pub mod Names
pub mod Scopes
pub mod Sets
