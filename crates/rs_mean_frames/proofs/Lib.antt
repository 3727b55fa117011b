pub mod Behaving
pub mod Deep
pub mod Framed
