pub mod Sections
pub mod PendingRows
