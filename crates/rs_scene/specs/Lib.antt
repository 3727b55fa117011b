pub mod Calls
pub mod Flows
pub mod Frames
pub mod Places
pub mod Scenes
