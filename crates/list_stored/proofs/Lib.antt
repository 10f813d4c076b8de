pub mod Reasons
pub mod Copies
pub mod Fits
pub mod WrittenAlike
