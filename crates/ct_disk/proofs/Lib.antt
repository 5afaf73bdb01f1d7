pub mod Crashes
pub mod Passing
pub mod Placed
pub mod Recorded
