pub mod Rows
pub mod Variables
