pub mod Covered
pub mod Defining
pub mod FileScope
pub mod FileUnits
pub mod Ordered
pub mod UnbrokenUnits
