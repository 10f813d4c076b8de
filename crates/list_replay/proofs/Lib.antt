pub mod BothPlaces
pub mod Walks
pub mod Replays
