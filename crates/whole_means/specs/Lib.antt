pub mod Beginning
pub mod FunctionNames
pub mod Laws
pub mod Layouts
pub mod Settings
pub mod Written
