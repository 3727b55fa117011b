pub mod Alike
pub mod Fields
pub mod Numbers
pub mod Worked
