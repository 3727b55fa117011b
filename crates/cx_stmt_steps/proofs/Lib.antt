pub mod CaseNumbers
pub mod Holding
pub mod Lists
pub mod Since
