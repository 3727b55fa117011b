pub mod FirstFree
mod Found
pub mod Pigeons
pub mod Search
pub mod Several
pub mod Suffixes
mod Taken
mod Worked
