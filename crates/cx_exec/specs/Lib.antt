pub mod Exec
pub mod Far
pub mod Steps
