pub mod Sums
pub mod Reasons
pub mod Alike
