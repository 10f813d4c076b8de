pub mod TableText
pub mod Answers
