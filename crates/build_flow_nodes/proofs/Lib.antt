mod Texts
mod Worked
mod WorkedBodies
