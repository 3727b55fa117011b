pub mod Aims
pub mod Graphs
