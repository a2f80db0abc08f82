pub mod Charts
pub mod Instances
pub mod Moves
pub mod Statements
