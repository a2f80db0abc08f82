pub mod Results
pub mod Shifting
pub mod Worked
pub mod Wrapping
