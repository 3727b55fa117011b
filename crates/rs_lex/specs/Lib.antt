pub mod Closed
pub mod Lexed
pub mod Same
pub mod Table
pub mod Views
