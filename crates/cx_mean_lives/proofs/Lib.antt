pub mod CallLives
pub mod HeldLives
pub mod MoveLives
pub mod Sizes
pub mod StoreSizes
pub mod ValueLives
