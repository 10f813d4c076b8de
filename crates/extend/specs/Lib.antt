pub mod Extensions
pub mod Flat
