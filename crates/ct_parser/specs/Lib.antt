pub mod Statements
pub mod ReadStmt
pub mod Exact
pub mod Law
