pub mod Holders
pub mod Changes
pub mod Holdings
