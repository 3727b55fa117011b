pub mod Found
pub mod Linking
pub mod Named
pub mod Program
