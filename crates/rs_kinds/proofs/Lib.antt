pub mod Calls
pub mod Common
pub mod Locals
pub mod Types
