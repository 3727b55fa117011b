pub mod Loads
pub mod Results
pub mod Stores
pub mod Worked
