pub mod Rows
pub mod Denominators
pub mod Shapes
pub mod Tens
