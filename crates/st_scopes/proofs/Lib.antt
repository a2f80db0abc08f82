pub mod DeclaredNames
pub mod NamesInOrder
pub mod ScopeLookups
