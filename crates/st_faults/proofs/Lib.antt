pub mod Least
pub mod Offers
pub mod Rows
