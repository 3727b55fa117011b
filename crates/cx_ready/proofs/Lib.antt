mod Filled
mod Lasts
mod Meant
pub mod Opened
mod Outcomes
mod Pointed
mod Staged
