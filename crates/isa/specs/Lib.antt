pub mod Opcodes
pub mod PlainFunctions
pub mod Entries
