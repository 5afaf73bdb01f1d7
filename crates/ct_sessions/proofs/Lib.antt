pub mod Locked
pub mod Seating
pub mod Shares
pub mod Soundness
pub mod Standing
