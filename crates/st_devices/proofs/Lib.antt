pub mod LineLemmas
pub mod PieceLemmas
pub mod TakingLemmas
pub mod WordLemmas
