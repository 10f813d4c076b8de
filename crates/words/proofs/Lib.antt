pub mod Judgements
pub mod LittleEndian
pub mod Sets
pub mod Answers
pub mod Outcomes
pub mod Places
