pub mod RunningSum
pub mod LookupSum
pub mod Shares
