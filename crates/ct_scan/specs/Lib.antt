pub mod Seen
pub mod Readings
pub mod Laws
pub mod Lists
pub mod Enough
pub mod Steps
