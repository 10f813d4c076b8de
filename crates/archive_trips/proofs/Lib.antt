pub mod Rearranged
pub mod RoundTrips
pub mod TwoCalls
pub mod ThreeCalls
