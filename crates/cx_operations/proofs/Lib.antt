mod Pairs
mod Unqualified
