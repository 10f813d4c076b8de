pub mod Products
pub mod PlainRows
pub mod Steps
pub mod Sums
