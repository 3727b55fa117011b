pub mod FirstRefused
pub mod Merging
pub mod Numbering
pub mod Ordering
pub mod TentativeLaws
pub mod UnitLaws
