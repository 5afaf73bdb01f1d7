pub mod Kept
pub mod Pruned
pub mod Seen
