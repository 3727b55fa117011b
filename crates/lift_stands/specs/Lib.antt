pub mod Keeps
pub mod LawsImages
pub mod LawsKeeps
pub mod LawsLoads
pub mod LawsStores
pub mod Stands
pub mod Worlds
