pub mod Compatible
pub mod Mains
pub mod UnitOrder
mod Worked
mod WorkedOrder
