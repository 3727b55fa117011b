pub mod Calls
pub mod ExampleNames
pub mod Lifted
pub mod Names
pub mod Objects
pub mod Stores
pub mod Temporaries
pub mod Written
