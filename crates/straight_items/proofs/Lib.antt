pub mod Examples
pub mod Fresh
pub mod KeptLaws
pub mod ModuleLaws
