pub mod Rows
pub mod Outputs
pub mod Packing
pub mod Unpacking
