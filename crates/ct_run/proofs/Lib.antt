pub mod Calls
pub mod Commands
pub mod Goes
pub mod Runs
pub mod Soundness
