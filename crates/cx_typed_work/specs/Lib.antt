pub mod Calls
pub mod ExternalCalls
pub mod Operands
pub mod Scenes
pub mod Steps
pub mod Works
