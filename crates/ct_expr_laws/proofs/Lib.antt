pub mod Fitting
pub mod Rules
pub mod Versions
pub mod Values
pub mod Types
