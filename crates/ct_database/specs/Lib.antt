pub mod Commits
pub mod Laws
pub mod Storable
pub mod Steps
pub mod Waiting
