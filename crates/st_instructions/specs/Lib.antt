pub mod Moves
pub mod Quick
pub mod Ready
