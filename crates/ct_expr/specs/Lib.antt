pub mod Environment
pub mod Logic
pub mod Numbers
pub mod Tables
pub mod Functions
pub mod Meaning
pub mod Conditions
pub mod Laws
