pub mod Before
pub mod Calling
pub mod Destinations
pub mod Emitting
pub mod Owns
pub mod StepParts
pub mod Trees
pub mod Ways
