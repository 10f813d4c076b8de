pub mod Deselection
pub mod Parts
