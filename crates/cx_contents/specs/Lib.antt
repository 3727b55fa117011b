pub mod Contents
pub mod Views
