mod Placed
mod Standing
pub mod Stopped
pub mod TokenLines
