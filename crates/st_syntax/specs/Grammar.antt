pub mod Charts
pub mod Statements
pub mod Declarations
pub mod Texts
pub mod Units
