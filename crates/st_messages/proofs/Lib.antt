mod Lexing
pub mod Lines
mod ReplacementRows
mod Showing
mod Skips
pub mod Telling
