pub mod Added
pub mod Next
pub mod Passing
pub mod Several
pub mod Walks
