pub mod Agree
pub mod Calls
pub mod Does
pub mod Gives
pub mod Here
pub mod Later
pub mod Outers
