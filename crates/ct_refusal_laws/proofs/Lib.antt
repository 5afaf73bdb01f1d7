pub mod Numbers
pub mod Steps
pub mod Evaluation
pub mod Answers
pub mod Fitting
pub mod Writes
pub mod Exactly
