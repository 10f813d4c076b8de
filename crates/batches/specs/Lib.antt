pub mod Batches
pub mod Left
pub mod Splitting
