pub mod Chains
pub mod DeclRules
pub mod InitRules
pub mod Opened
pub mod Scalars
pub mod StmtRules
