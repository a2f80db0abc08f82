pub mod Assigned
pub mod Literals
pub mod Rows
pub mod Types
