pub mod ListSections
pub mod Fillings
pub mod Paddings
pub mod FilledAlike
