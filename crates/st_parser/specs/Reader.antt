pub mod Expressions
pub mod Functions
pub mod Parsers
