pub mod boxed
pub mod list
