pub mod Represented
pub mod Forms
pub mod Layers
pub mod Walked
pub mod Fitting
pub mod Writing
pub mod Binding
