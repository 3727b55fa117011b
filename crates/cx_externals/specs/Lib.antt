pub mod Functions
pub mod LibraryTypes
pub mod Opaque
