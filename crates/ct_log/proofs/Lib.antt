pub mod Appending
pub mod Filling
pub mod Frames
pub mod Gates
pub mod OneReading
pub mod Pieces
pub mod Records
