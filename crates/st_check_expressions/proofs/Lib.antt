pub mod Counts
pub mod Folds
pub mod Nodes
pub mod Owns
pub mod Repeated
pub mod Steps
