pub mod Decimal
pub mod Lengths
pub mod Putting
pub mod Adding
