pub mod Statics
pub mod Texts
pub mod Views
