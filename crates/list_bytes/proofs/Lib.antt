pub mod StoredPlaces
pub mod Replaced
pub mod Format
