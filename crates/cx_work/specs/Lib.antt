pub mod Counts
pub mod Pushed
pub mod Resumes
pub mod Values
pub mod Views
pub mod Waiting
pub mod Weights
pub mod formers
