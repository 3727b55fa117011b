pub mod Cells
pub mod Decoded
pub mod Forms
pub mod Images
pub mod Kept
pub mod Loads
pub mod Stores
pub mod Worked
