pub mod Aliases
pub mod Known
pub mod Lookups
pub mod Tables
pub mod Listed
pub mod GraphLemmas
mod Marks
mod Walking
mod Visits
mod Steps
mod Reversing
mod Searching
mod Returning
pub mod Orders
pub mod Callers
pub mod Closed
pub mod Contents
pub mod Folds
pub mod InOrder
pub mod Lists
pub mod Names
pub mod Rows
pub mod Units
