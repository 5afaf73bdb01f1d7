pub mod Going
pub mod Groups
pub mod Growing
pub mod Order
pub mod Stepping
pub mod Writes
