pub mod Requests
pub mod TermSums
pub mod Servers
pub mod ClientLaw
