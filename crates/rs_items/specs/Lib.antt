pub mod Known
pub mod Laid
pub mod Records
pub mod Types
pub mod Walks
