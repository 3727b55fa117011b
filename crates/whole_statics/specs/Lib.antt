pub mod Outers
pub mod Statics
