pub mod Kinds
pub mod WellFormed
