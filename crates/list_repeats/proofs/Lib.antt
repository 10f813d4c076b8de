pub mod Repeats
pub mod Chains
