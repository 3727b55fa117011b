pub mod Checks
pub mod Laid
pub mod Slots
pub mod Views
