-- What a walk in depth keeps.
use Rattle.std.specs.Prelude.{ℕ, ◌≡◌, ◌≢◌, ◌+◌, ◌⊎◌, Bool, true, false, nat_eq, List, [], ◌∷◌, ◌++◌, length, slice_index_or}
use Rattle.std.specs.List.{All, AllPairs, Contains, count_by}
use Rattle.st_references.specs.Graphs.{Graph, IsRow, Refers, Reaches}

-- the row is seen
abbrev pub IsSeen : List Bool → ℕ → Type 0
IsSeen seen a = slice_index_or seen a false ≡ true

-- how often the row stands in the list
abbrev pub occurrences : ℕ → List ℕ → ℕ
occurrences a rows = count_by (nat_eq a) rows

-- 1 for true
abbrev pub one : Bool → ℕ
one true = 1
one false = 0

-- what these rows refer to is one of them, or reaches this row
abbrev pub StaysOrReaches : Graph → List ℕ → ℕ → Type 0
StaysOrReaches graph rows a = (b c : ℕ) → Contains rows b → Refers graph b c → Contains rows c ⊎ Reaches graph c a

-- what the rows up to any one refer to is one of them, or reaches this one
abbrev pub ReachesLast : Graph → List ℕ → Type 0
ReachesLast graph order =
    (before after : List ℕ) (a : ℕ) → order ≡ before ++ a ∷ after → StaysOrReaches graph (before ++ a ∷ []) a

-- all rows, each once, as a walk in depth leaves them
pub record IsPostorder (graph : Graph) (order : List ℕ) : Type 0 where
  pub rows : All (IsRow graph) order
  pub all : (a : ℕ) → IsRow graph a → Contains order a
  pub once : AllPairs (λ a b. a ≢ b) order
  pub last : ReachesLast graph order

-- a walk that stands on this path, has seen these rows and has left those in the order
pub record IsWalk (graph : Graph) (path : List ℕ) (seen : List Bool) (order : List ℕ) : Type 0 where
  pub length : length seen ≡ length graph
  -- a row that is seen stands once, in the order or on the path, and another one nowhere
  pub places : (a : ℕ) → occurrences a order + occurrences a path ≡ one (slice_index_or seen a false)
  pub rows : All (IsRow graph) order
  pub once : AllPairs (λ a b. a ≢ b) order
  pub last : ReachesLast graph order
  pub followed : (a b : ℕ) → Contains order a → Refers graph a b → IsSeen seen b
  -- each row of the path reaches all later ones
  pub along : AllPairs (Reaches graph) path
