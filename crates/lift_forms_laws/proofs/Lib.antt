pub mod Binary
pub mod BitWrites
pub mod Bits
pub mod BothMemories
pub mod Constants
pub mod Conversions
pub mod FieldBytes
pub mod FieldMemory
pub mod FieldStores
pub mod Numbers
pub mod Operands
pub mod Pointers
pub mod Runs
pub mod Unary
mod Worked
