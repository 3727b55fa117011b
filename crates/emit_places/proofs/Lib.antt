pub mod Bodies
pub mod Later
pub mod Noted
pub mod Placed
