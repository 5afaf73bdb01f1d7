pub mod Machine
pub mod Seen
pub mod Holding
pub mod Conflicts
pub mod Replies
