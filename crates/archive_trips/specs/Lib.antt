pub mod ArchiveTrips
