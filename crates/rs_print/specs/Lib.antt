pub mod Condition
