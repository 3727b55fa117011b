mod Bare
mod Behinds
mod Found
pub mod Ordered
mod Params
