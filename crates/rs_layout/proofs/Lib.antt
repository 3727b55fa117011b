pub mod Found
pub mod Layouts
pub mod LayoutsAligned
pub mod LayoutsExamples
pub mod LayoutsFields
pub mod LayoutsNames
pub mod LayoutsTyped
