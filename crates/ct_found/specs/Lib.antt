pub mod Checkpoint
pub mod Foreign
pub mod Found
pub mod Gathered
pub mod Laws
pub mod Pieces
