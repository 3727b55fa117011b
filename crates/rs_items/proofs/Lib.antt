mod Aligns
mod Kept
mod Lefts
mod TypeLists
mod Worked
