pub mod Yields
pub mod Lexemes
pub mod Trees
pub mod Expressions
pub mod Statements
