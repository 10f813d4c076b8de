pub mod Rows
pub mod Limits
pub mod Fits
pub mod Steps
