pub mod Count
pub mod Layout
pub mod Rules
pub mod Scalar
pub mod formers
