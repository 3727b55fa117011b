mod Celled
mod Parts
mod Scalars
