pub mod BinaryValues
pub mod ConvertedValues
pub mod Operators
pub mod PointerValues
pub mod Ranges
pub mod ScalarKinds
pub mod UnaryValues
