mod Ended
mod Initials
mod Written
