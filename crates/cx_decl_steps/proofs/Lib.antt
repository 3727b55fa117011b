pub mod Contents
pub mod HeadLaws
pub mod Kept
