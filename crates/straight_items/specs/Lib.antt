pub mod Laws
pub mod Modules
pub mod Names
pub mod Search
pub mod Temporaries
