pub mod OneColumn
pub mod PairsByKey
pub mod RowsAdded
pub mod Sorted
