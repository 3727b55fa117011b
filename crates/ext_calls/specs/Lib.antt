pub mod Host
pub mod Outside
pub mod Script
