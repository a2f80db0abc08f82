-- What follows of an order.
use Rattle.std.specs.Prelude.{ℕ, ◌<◌, List, length, slice_index_or, take}
use Rattle.std.specs.List.{Contains}
use Rattle.st_references.specs.Graphs.{Graph, Refers, Reaches, IsBefore, IsOrder}

-- what the row at a place refers to stands at the places before
abbrev pub ReferencesAreBefore : Type 0
ReferencesAreBefore = (graph : Graph) (order : List ℕ) (place b : ℕ) → IsOrder graph order → place < length order
    → Refers graph (slice_index_or order place 0) b → Contains (take place order) b

-- what a row reaches stands before it
abbrev pub ReachedIsBefore : Type 0
ReachedIsBefore = (graph : Graph) (order : List ℕ) (a b : ℕ) → IsOrder graph order → Reaches graph a b → IsBefore order b a

-- no row reaches itself
abbrev pub NoneReachesItself : Type 0
NoneReachesItself = (graph : Graph) (order : List ℕ) (a : ℕ) → IsOrder graph order → Reaches graph a a → ⊥
