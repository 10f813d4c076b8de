pub mod Elements
pub mod Primes
pub mod Tables
pub mod SmallInverses
