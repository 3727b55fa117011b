pub mod Chosen
pub mod Lives
pub mod Newest
pub mod NextOnes
pub mod Reaching
pub mod Scopes
