pub mod Feeding
pub mod Tables
