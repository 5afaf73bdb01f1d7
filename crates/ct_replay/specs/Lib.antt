pub mod Keys
pub mod Laws
pub mod Replay
pub mod Steps
