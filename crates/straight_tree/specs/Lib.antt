pub mod Depth
pub mod Derives
pub mod Levels
pub mod Tokens
pub mod Trees
pub mod Valid
pub mod Views
