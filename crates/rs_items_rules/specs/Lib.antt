pub mod Agree
pub mod LawsRecords
