pub mod Charts
pub mod Leaves
pub mod Parts
pub mod Views
