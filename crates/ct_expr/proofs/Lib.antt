pub mod Chains
pub mod Truths
pub mod RowVersions
pub mod TextNames
