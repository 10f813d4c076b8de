pub mod Distinct
pub mod Tallies
pub mod Replayed
pub mod Carried
pub mod Law
pub mod Placed
pub mod Examples
