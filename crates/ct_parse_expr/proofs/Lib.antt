pub mod NameLaws
pub mod Calls
pub mod Expressions
