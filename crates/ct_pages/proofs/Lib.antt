pub mod Decoding
pub mod Finishes
pub mod Moves
pub mod Putting
pub mod Spares
pub mod Turning
pub mod Windows
