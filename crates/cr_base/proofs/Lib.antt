mod LayoutExamples
pub mod Layouts
pub mod Residues
