pub mod Among
pub mod Places
pub mod Versions
pub mod Walk
pub mod Walked
