pub mod Exprs
pub mod Numbers
pub mod Reading
pub mod Signs
pub mod Types
