pub mod RoundTrips
pub mod TwoCalls
