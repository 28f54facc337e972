pub mod Carried
pub mod Kinds
