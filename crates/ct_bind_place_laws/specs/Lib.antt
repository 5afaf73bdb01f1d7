pub mod Parts
pub mod Columns
pub mod Causes
pub mod Statements
pub mod Laws
