pub mod Asked
pub mod Command
pub mod Job
pub mod Numbers
