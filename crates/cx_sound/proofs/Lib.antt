mod Example
pub mod Sound
