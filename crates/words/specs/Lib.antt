pub mod Limits
pub mod Refusals
pub mod Answers
pub mod Outcomes
pub mod LittleEndian
pub mod Places
