pub mod Shared
pub mod Lent
