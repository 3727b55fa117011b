pub mod Answering
pub mod Entered
pub mod Going
pub mod Landing
pub mod StaticsBegin
