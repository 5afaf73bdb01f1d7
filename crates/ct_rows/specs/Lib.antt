pub mod Prunes
pub mod Versions
