pub mod RingLawsX
pub mod Inverses
pub mod Laws
pub mod Roots
