pub mod child
pub mod children
