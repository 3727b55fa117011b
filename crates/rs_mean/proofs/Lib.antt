pub mod Bounded
mod ExampleBases
mod ExampleCases
mod ExampleForms
mod ExampleItems
mod ExampleMoreForms
mod ExampleOperatorCases
mod ExamplePlaceCases
mod ExampleRuns
mod ExampleStatementCases
mod ExampleTypes
pub mod Extended
pub mod Pieces
pub mod Silent
pub mod Trails
pub mod Unfolded
