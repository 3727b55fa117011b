pub mod SameTypes
pub mod Typed
pub mod TypedBits
pub mod Validity
mod Worked
