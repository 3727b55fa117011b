pub mod Named
mod Worked
