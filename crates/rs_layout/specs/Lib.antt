pub mod Found
pub mod Layouts
pub mod LayoutsNumbered
pub mod Places
