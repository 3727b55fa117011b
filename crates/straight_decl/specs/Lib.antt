pub mod CoreOf
pub mod Given
pub mod ObjectNames
