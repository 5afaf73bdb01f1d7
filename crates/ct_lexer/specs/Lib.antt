pub mod Bytes
pub mod Cutting
pub mod Scanning
pub mod Spans
pub mod Tokens
