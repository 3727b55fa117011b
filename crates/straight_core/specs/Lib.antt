pub mod Examples
pub mod Trees
pub mod Views
pub mod Typing
pub mod Linked
