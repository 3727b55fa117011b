mod Compatible
mod Given
mod Grouped
mod Single
mod Sliced
mod Stepped
