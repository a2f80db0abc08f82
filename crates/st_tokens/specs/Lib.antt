pub mod Characters
pub mod Forms
pub mod Names
pub mod Scanning
pub mod Symbols
pub mod Text
pub mod Words
