mod ExampleRows
pub mod Examples
