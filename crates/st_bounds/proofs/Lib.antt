pub mod Fitting
pub mod SmallFunctions
