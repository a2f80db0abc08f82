pub mod Charts
pub mod Declarations
pub mod Lookups
pub mod ScopeFields
pub mod TextTables
pub mod UnitNames
