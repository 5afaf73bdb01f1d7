pub mod Parts
pub mod Overflows
pub mod Queries
pub mod Misfits
pub mod Writes
pub mod Laws
