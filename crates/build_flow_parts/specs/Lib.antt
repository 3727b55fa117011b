pub mod Bodies
pub mod Means
pub mod Tells
