pub mod OneSum
pub mod Sums
