pub mod Keyed
pub mod Once
pub mod Replaying
