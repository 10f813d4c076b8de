pub mod Verdicts
pub mod Groups
