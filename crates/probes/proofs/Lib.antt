pub mod Places
pub mod Elements
pub mod ElementPlaces
