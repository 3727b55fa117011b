pub mod Agree
mod BitFieldExamples
mod CompatibleExamples
pub mod Conversion
mod ConversionExamples
mod Counterexamples
pub mod Examples
pub mod Gathers
pub mod GoodSets
mod LayoutExamples
pub mod Relation
mod TextExamples
