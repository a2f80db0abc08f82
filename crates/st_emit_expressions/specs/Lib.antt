pub mod Calls
pub mod Emits
pub mod Functions
pub mod Places
pub mod Steps
pub mod Trees
