pub mod Plan
pub mod Recording
pub mod Holding
pub mod Placing
