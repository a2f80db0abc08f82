pub mod Calls
pub mod Inside
pub mod Known
pub mod Nodes
pub mod Variables
pub mod Walk
