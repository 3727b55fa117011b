mod Declared
mod Objects
