mod Found
mod Worked
