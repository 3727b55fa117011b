pub mod Functions
pub mod Items
pub mod Laws
pub mod Run
pub mod Scalars
pub mod Typing
pub mod World
