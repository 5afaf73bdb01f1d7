pub mod Appends
pub mod Escapes
pub mod Grows
pub mod Transcripts
