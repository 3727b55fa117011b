pub mod Embedding
pub mod Homes
pub mod Laws
pub mod Links
pub mod Ordered
