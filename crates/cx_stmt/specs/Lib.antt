pub mod Declarations
pub mod Stmts
pub mod Units
