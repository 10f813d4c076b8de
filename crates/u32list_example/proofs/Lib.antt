pub mod Lines
pub mod PrintedExample
