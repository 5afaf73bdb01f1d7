pub mod Areas
pub mod Crash
pub mod Held
pub mod Mem
pub mod Steps
