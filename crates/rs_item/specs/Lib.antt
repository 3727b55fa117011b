pub mod Items
pub mod Stmts
