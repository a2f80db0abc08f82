pub mod Invocations
pub mod Statements
