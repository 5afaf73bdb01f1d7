pub mod Kept
pub mod Moves
pub mod Sets
pub mod Taking
pub mod Waits
