pub mod Checked
pub mod Deeper
pub mod Elementary
pub mod LevelLemmas
pub mod NamedExpressions
pub mod NamedStatements
pub mod NamedTerms
pub mod Passing
pub mod Ranks
pub mod Turns
mod TypedCalls
mod Chains
mod TypedCharts
mod Expressions
mod TypedFunctions
mod Initials
mod InitialsFound
mod Invocations
mod Literals
mod Made
mod Names
mod Numbers
mod OneChart
mod OneCommand
mod OneTerm
mod Places
mod Sketches
mod Statements
mod Targets
mod Types
mod TypedUnits
mod Variables
mod Words
pub mod AreBlocks
pub mod AreFunctions
pub mod Callable
pub mod Charted
pub mod Coded
pub mod Frames
pub mod Functioned
pub mod Greatest
pub mod Known
pub mod Listed
pub mod Moments
pub mod OfLeaves
pub mod OfTypes
pub mod OneLeaf
pub mod Ordered
pub mod Renamed
pub mod Runs
pub mod Said
pub mod SmallFunctions
pub mod Starts
pub mod Taken
pub mod Typed
