pub mod Mentions
pub mod Causes
pub mod Laws
pub mod Own
