pub mod Examples
pub mod Got
