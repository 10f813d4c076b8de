pub mod Columns
pub mod Challenges
pub mod Layouts
pub mod RowWords
pub mod Tens
