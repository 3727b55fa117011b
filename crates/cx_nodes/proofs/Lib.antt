pub mod Addresses
pub mod Arguments
pub mod Callees
pub mod Opened
pub mod Promotions
