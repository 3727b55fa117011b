pub mod Formed
pub mod Opened
pub mod OpenedExprs
pub mod Operated
pub mod Quickly
pub mod Remaining
