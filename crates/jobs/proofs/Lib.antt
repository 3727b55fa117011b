mod Examples
pub mod JobLaws
pub mod NumberLaws
