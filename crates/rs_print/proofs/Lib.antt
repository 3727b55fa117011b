pub mod Blanks
pub mod Paths
pub mod Printable
