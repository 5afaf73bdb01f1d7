pub mod Codes
pub mod EntryReaders
pub mod Readers
pub mod Spellings
