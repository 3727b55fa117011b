mod Kept
mod Rows
mod Spots
mod Walks
