pub mod Laws
pub mod Standings
pub mod Steps
