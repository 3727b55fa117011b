pub mod CallRules
pub mod Chains
pub mod NodeRules
pub mod Opened
pub mod Tests
