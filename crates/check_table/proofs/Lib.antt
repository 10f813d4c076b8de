pub mod Groups
pub mod Joined
pub mod Clauses
