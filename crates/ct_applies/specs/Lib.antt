pub mod Climbs
pub mod Cuts
