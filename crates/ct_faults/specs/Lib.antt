pub mod Bytes
pub mod Causes
pub mod Disk
pub mod MemSink
pub mod MemSource
pub mod Plain
pub mod Stream
