pub mod Bodies
pub mod Exprs
pub mod Fits
pub mod Labels
pub mod Parts
pub mod Walks
