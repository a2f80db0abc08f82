pub mod Bytes
pub mod Laws
pub mod Memory
pub mod Moves
pub mod Packed
