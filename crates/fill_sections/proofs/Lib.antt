pub mod BitsMinus33
pub mod Sections
pub mod PendingRows
