pub mod Choices
pub mod Listings
pub mod Members
pub mod Rows
pub mod Uses
pub mod Walks
pub mod Worded
