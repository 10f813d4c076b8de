pub mod Client
pub mod Flat
