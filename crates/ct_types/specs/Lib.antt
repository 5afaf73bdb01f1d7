pub mod Answers
pub mod ColumnFit
pub mod Order
