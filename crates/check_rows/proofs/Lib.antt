pub mod Products
pub mod BaseValues
