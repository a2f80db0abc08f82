pub mod Extended
pub mod Taken
pub mod Valued
