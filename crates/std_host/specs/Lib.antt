pub mod Conversions
pub mod Effects
pub mod Formats
pub mod Laws
pub mod Output
pub mod Printing
pub mod StdHost
