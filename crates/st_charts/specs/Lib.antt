pub mod Charts
pub mod Laws
pub mod Outcomes
pub mod Passages
pub mod Ranks
pub mod Stages
