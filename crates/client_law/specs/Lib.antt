pub mod ClientLaw
