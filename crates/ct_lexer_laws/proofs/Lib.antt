pub mod Lone
pub mod Quoting
pub mod Unquoting
pub mod Texts
pub mod HexDigits
pub mod HexBytes
pub mod Numerals
pub mod Numbers
