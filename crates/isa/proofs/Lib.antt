pub mod Comparing
pub mod Entries
pub mod Logarithm
pub mod Opcodes
pub mod PlainLaws
