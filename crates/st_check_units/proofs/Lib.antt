pub mod ArraySizes
pub mod NamesTwice
pub mod TextUnits
pub mod UnitSizes
