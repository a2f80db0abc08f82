pub mod Collections
pub mod Findings
pub mod Messages
pub mod Places
