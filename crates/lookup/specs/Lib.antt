pub mod ByteLookup
pub mod Cascades
pub mod Placing
pub mod Recordings
pub mod Lent
