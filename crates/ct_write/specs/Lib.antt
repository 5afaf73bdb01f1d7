pub mod Steps
pub mod Fitting
pub mod Rows
pub mod Writes
pub mod Duplicates
pub mod Laws
