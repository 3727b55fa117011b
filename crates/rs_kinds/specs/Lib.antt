pub mod Calls
pub mod Forms
pub mod Kinds
pub mod Scopes
pub mod Signatures
