pub mod Expressions
pub mod Faults
pub mod Levels
pub mod Lists
pub mod Tokens
