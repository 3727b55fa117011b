pub mod ExampleCrate
pub mod ExampleReads
