pub mod Steps
pub mod Printed
pub mod Sheets
