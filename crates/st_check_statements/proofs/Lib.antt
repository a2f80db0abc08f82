pub mod Folds
pub mod Names
