pub mod Charts
pub mod Counted
pub mod Declarations
pub mod Repeats
pub mod Subscripts
pub mod Units
