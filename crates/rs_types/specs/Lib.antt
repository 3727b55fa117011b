pub mod Bodies
pub mod Checked
pub mod KnownTypes
pub mod Names
