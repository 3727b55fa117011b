pub mod Completed
pub mod Declaring
pub mod Same
pub mod Settling
