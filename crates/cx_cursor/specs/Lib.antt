pub mod Lists
pub mod Reading
pub mod Scopes
pub mod Sights
