pub mod Calls
pub mod Coded
pub mod CrateOf
pub mod Items
pub mod Named
pub mod Right
pub mod Same
pub mod Straight
