pub mod Limits
pub mod Sources
pub mod Queries
pub mod Writes
pub mod Binding
