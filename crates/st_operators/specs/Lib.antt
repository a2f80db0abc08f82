pub mod Functions
pub mod Laws
pub mod Operators
