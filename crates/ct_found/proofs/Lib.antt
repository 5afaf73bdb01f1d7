pub mod Apart
pub mod Faults
pub mod Gathering
pub mod Meeting
pub mod Once
pub mod Stays
