-- Graphs, whose rows are numbered from 0 and refer to rows.
use Rattle.std.specs.Prelude.{ℕ, ◌≡◌, ◌≢◌, ◌↔◌, ◌<◌, List, [], ◌∷◌, ◌++◌, length, slice_index_or}
use Rattle.std.specs.List.{All, AllPairs, Contains}

-- for each row the rows that it refers to
abbrev pub Graph : Type 0
Graph = List (List ℕ)

-- what a row refers to; past the last row nothing
abbrev pub references : Graph → ℕ → List ℕ
references graph a = slice_index_or graph a []

-- this is a row of the graph
abbrev pub IsRow : Graph → ℕ → Type 0
IsRow graph a = a < length graph

-- all references are to rows of the graph
abbrev pub IsClosed : Graph → Type 0
IsClosed graph = All (All (IsRow graph)) graph

-- row a refers to row b
abbrev pub Refers : Graph → ℕ → ℕ → Type 0
Refers graph a b = Contains (references graph a) b

-- row a refers to row c, directly or through others
pub data Reaches (graph : Graph) : ℕ → ℕ → Type 0 where
  direct : {a c : ℕ} → Refers graph a c → Reaches graph a c
  onward : {a b c : ℕ} → Refers graph a b → Reaches graph b c → Reaches graph a c

-- b stands before a in the order
abbrev pub IsBefore : List ℕ → ℕ → ℕ → Type 0
IsBefore order b a = (before after : List ℕ) → order ≡ before ++ a ∷ after → Contains before b

-- all rows of the graph, each once, and after all that it refers to
pub record IsOrder (graph : Graph) (order : List ℕ) : Type 0 where
  pub rows : All (IsRow graph) order
  pub all : (a : ℕ) → IsRow graph a → Contains order a
  pub once : AllPairs (λ a b. a ≢ b) order
  pub after : (a b : ℕ) → Refers graph a b → IsBefore order b a

-- these rows reach themselves, and no others do, and there is one
pub record AreCyclic (graph : Graph) (rows : List ℕ) : Type 0 where
  pub cyclic : (a : ℕ) → Contains rows a ↔ Reaches graph a a
  pub some : rows ≢ []
