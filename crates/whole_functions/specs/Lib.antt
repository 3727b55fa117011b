pub mod Bodies
pub mod Locals
