pub mod Blocks
pub mod Entries
pub mod Charts
pub mod Functions
pub mod Levels
pub mod Running
pub mod Stretches
