pub mod Depth
pub mod Statements
pub mod Laws
