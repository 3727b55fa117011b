pub mod Bodies
pub mod Calls
pub mod Entries
pub mod Frames
pub mod Laws
pub mod Programs
