mod Entries
mod Examples
