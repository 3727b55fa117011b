mod Firsts
mod Several
mod Valid
mod Worked
