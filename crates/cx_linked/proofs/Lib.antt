pub mod Gathered
pub mod FirstPlaces
pub mod Tables
