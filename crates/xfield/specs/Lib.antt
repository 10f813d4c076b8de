pub mod Extension
pub mod Inverses
pub mod XFieldElements
