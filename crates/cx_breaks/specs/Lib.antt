pub mod Asked
pub mod Calls
pub mod Casts
pub mod Placed
