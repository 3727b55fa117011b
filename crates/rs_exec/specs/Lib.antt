pub mod Ends
pub mod Exec
