pub mod Grammar
pub mod Reader
pub mod Stops
pub mod Laws
pub mod Lengths
