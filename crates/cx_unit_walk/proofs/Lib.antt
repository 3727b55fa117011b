pub mod Heads
pub mod Loops
pub mod Opened
pub mod Rests
