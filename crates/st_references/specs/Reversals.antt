-- Graphs with their references turned round.
use Rattle.std.specs.Prelude.{ℕ, ◌≡◌, ◌⊎◌, ◌↔◌, List, length}
use Rattle.std.specs.List.{Contains}
use Rattle.st_references.specs.Graphs.{Graph, Refers}

-- each row refers to the rows that refer to it in the graph
pub record IsReversal (graph reversal : Graph) : Type 0 where
  pub rows : length reversal ≡ length graph
  pub turned : (a b : ℕ) → Refers reversal b a ↔ Refers graph a b

-- besides what they referred to, these rows refer to this one, and else nothing is new
pub record AddsReferences (from : List ℕ) (to : ℕ) (graph graph' : Graph) : Type 0 where
  pub rows : length graph' ≡ length graph
  pub refers : (a b : ℕ) → Refers graph' a b ↔ (Refers graph a b ⊎ (Contains from a × (b ≡ to)))
