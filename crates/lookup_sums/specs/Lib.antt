pub mod LookupSums
pub mod Flat
pub mod Elements
