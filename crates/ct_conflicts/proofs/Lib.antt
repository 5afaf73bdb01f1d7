pub mod Asked
pub mod Found
pub mod Noted
pub mod Placed
