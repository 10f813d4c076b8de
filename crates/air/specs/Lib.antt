pub mod Constraints
pub mod Check
pub mod Claim
