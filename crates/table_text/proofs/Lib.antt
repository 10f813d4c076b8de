pub mod Feeding
pub mod Answering
pub mod Taking
