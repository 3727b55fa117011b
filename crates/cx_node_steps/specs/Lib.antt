pub mod Callings
pub mod Changes
pub mod Dones
pub mod Parts
pub mod Unites
pub mod Views
