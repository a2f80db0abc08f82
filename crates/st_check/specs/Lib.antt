pub mod Sized
pub mod Answers
pub mod Faults
pub mod Laws
pub mod Programs
pub mod Recursions
