pub mod LawsModules
pub mod Modules
