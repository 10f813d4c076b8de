pub mod Lists
pub mod Heights
pub mod Keys
pub mod Counted
pub mod Holds
pub mod Eights
pub mod Lent
