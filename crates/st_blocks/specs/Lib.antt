pub mod Blocks
pub mod Cells
pub mod Laws
pub mod Steps
