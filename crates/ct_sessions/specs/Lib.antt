pub mod Changes
pub mod Holds
pub mod Laws
pub mod Owns
pub mod Seats
pub mod Sound
pub mod Steps
