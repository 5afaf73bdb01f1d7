pub mod Statements
pub mod Queries
pub mod Laws
pub mod Storing
