pub mod OwnNames
mod Tables
mod Units
