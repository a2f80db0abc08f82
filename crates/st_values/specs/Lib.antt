pub mod Durations
pub mod Names
pub mod Numbers
pub mod Readings
pub mod Texts
pub mod Types
pub mod Values
pub mod Words
