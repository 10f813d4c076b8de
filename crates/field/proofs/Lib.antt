pub mod Ring
pub mod RingLaws
pub mod Words
pub mod Naturals
pub mod Congruence
pub mod Counting
pub mod Primality
pub mod Fermat
pub mod Powers
pub mod Inverses
pub mod Laws
pub mod Tables
pub mod StoredInverses
pub mod SmallInverses
mod Euclid
