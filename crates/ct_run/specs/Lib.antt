pub mod Laws
pub mod Meant
pub mod Schedule
pub mod Soundness
pub mod Steps
pub mod Top
