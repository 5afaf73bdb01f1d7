pub mod Conflicts
pub mod Later
pub mod Stamped
