pub mod Joins
pub mod Sorting
pub mod Answer
pub mod Steps
pub mod Laws
