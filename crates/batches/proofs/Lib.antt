pub mod Splitting
pub mod Walking
pub mod Answering
