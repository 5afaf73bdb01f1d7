pub mod Climbing
pub mod Dots
pub mod Each
pub mod SameKey
