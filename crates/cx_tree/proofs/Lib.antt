pub mod ExampleDecls
pub mod ExampleExprs
pub mod ExampleNames
