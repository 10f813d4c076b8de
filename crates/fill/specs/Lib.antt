pub mod Filling
pub mod Padding
pub mod Extending
