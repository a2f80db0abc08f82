pub mod Bytes
pub mod Inputs
pub mod Lines
pub mod Pending
pub mod Sheet
pub mod Streams
pub mod Words
