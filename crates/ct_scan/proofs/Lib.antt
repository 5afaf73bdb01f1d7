pub mod Steps
pub mod Holding
pub mod Filtering
pub mod Loops
pub mod Asked
pub mod Candidates
pub mod Crossing
pub mod Alike
