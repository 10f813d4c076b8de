pub mod Numbers
pub mod Sheets
