mod Apart
mod Begun
mod Carried
mod Filled
mod Opened
mod Resumed
mod Summed
