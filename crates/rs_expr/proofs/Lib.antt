pub mod Chosen
pub mod CursorLemmas
pub mod NumberLemmas
pub mod Turns
