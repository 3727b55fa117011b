mod Bodies
mod Worked
