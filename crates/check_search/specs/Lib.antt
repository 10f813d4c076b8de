pub mod Nonzeros
pub mod Finds
