pub mod Moving
pub mod Sites
pub mod Ways
