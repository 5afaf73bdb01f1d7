pub mod Reads
pub mod Decide
pub mod Step
pub mod Play
pub mod Fits
pub mod Laws
pub mod Transcript
