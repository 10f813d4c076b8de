pub mod Blocks
pub mod Columns
pub mod Reasons
