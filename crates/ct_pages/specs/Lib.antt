pub mod Areas
pub mod Flips
pub mod Fresh
pub mod Laws
pub mod Reading
pub mod Slots
