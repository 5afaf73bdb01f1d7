pub mod Suits
pub mod Range
pub mod Rows
pub mod Seeing
pub mod Settling
pub mod Stands
pub mod Steps
