pub mod Calls
pub mod FunctionNames
pub mod Keys
pub mod Kept
pub mod Laws
pub mod ModuleNames
