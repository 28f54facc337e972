pub mod Ours
pub mod Whole
