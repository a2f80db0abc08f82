pub mod Insides
pub mod Lists
pub mod Names
pub mod Parts
pub mod Settled
pub mod Tables
pub mod Unfolding
pub mod Whole
pub mod Apart
mod Checked
pub mod Cyclic
pub mod DataTypes
mod Deciding
pub mod DistinctNames
pub mod ElementaryFunctions
mod Firsts
pub mod Kept
mod Named
pub mod NamesStored
pub mod Passing
mod ShortRanges
mod ShortSubscripts
pub mod ShortUnits
pub mod Small
mod SoundLeaves
mod Thinned
pub mod UnitsApart
pub mod UnitsShort
