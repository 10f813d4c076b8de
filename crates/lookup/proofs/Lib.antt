pub mod ByteLookup
pub mod Finding
pub mod LookupCases
pub mod Recordings
