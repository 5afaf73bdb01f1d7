pub mod Cells
pub mod Rows
pub mod Indexed
pub mod Sources
pub mod Plain
