mod Examples
pub mod Unlimited
