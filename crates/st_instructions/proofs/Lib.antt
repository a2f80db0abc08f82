pub mod InPlace
pub mod Invocations
pub mod Narrow
pub mod Newest
pub mod Operands
pub mod Operated
pub mod Shifted
pub mod Stores
mod Together
pub mod Turns
