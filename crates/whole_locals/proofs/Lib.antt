mod Behinds
mod Known
mod Leaving
mod Ordered
mod Several
