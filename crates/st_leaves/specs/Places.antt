-- Where a leaf stands among those of what variables consist of: its number, by offsets and strides.
use Rattle.std.specs.Prelude.{◌≡◌, ℕ, ◌+◌, ◌*◌, ◌<◌, ℤ, pos, ◌+ℤ◌, ◌-ℤ◌, true, false, List, [], ◌∷◌, codes, length, Option}
use Rattle.std.specs.List.{HoldsAt, flat_map, list_any}
use Rattle.st_leaves.specs.Subscripts.{values_from}
use Rattle.st_tree.specs.declared.tree.constant.Constant.{Constant}
use Rattle.st_tree.specs.declared.tree.declaration.Subrange.{Subrange}
use Rattle.st_tree.specs.declared.tree.declaration.VarKind.{VarKind}
use Rattle.st_tree.specs.declared.tree.unit.ChartElement.{ChartElement}
use Rattle.st_tree.specs.declared.tree.unit.Step.{Step}
use Rattle.st_types.specs.Compositions.{Composition, unknown, elementary, array, composed, standard, Members, none, member}
use Rattle.st_types.specs.Names.{steps_in}
use Rattle.st_types.specs.Standard.{pins_of, kept_by}
use Rattle.st_types.specs.declared.standard.StandardBlock.{StandardBlock}
use Rattle.st_values.specs.Words.{is_word}
use Rattle.st_values.specs.declared.value.Value.{Value}
use Rattle.st_leaves.specs.Charts.{associations_of, is_pulse, step_types, stored_names}
use Rattle.st_tree.specs.Literals.{number_of}
use Rattle.st_leaves.specs.LeavesIn.{LeafIn, leaves_in, leaves_of_whole}
use Rattle.st_leaves.specs.Paths.{Path, field, index, is_same_path}

-- ---- how many leaves

-- how many numbers there are from the lower bound to the upper one
abbrev pub extent_of : Subrange → ℕ
extent_of r = values_from (number_of r.upper -ℤ number_of r.lower)

-- how many elements
abbrev pub extent : List Subrange → ℕ
extent [] = 1
extent (r ∷ rs) = extent_of r * extent rs

abbrev pub step_count : Step → ℕ
step_count s = length (step_types (list_any is_pulse s.associations))

abbrev pub steps_count : List Step → ℕ
steps_count [] = 0
steps_count (s ∷ steps) = step_count s + steps_count steps

-- whether the chart has begun, its steps, and the names that are stored
abbrev pub whole_chart_count : List Step → ℕ
whole_chart_count steps = 1 + (steps_count steps + length (stored_names (associations_of steps)))

abbrev pub chart_count : List ChartElement → ℕ
chart_count [] = 0
chart_count elements = whole_chart_count (flat_map steps_in elements)

abbrev mutual
  pub count : Composition → ℕ
  count unknown = 0
  count (elementary v) = 1
  count (array ranges firsts c) = extent ranges * count c
  count (composed name ms chart) = counts ms + chart_count chart
  count (standard b) = length (pins_of b) + length (kept_by b)

  pub counts : Members → ℕ
  counts none = 0
  counts (member name kind c ms) = count c + counts ms

-- ---- elements: how far the one with these subscripts stands behind the first, where each has so many leaves

pub data IsDistance (size : ℕ) : List Subrange → List ℤ → ℕ → Type 0 where
  -- there are no more subscripts
  no_more : IsDistance size [] [] 0
  -- The subscript lies so far above the lower bound, and not above the upper one. The stride is the size of all elements of the
  -- further subscripts.
  above : {r : Subrange} {rs : List Subrange} {i : ℤ} {is : List ℤ} {far d : ℕ} → far < extent_of r → i ≡ number_of r.lower +ℤ pos far → IsDistance size rs is d
      → IsDistance size (r ∷ rs) (i ∷ is) (far * (extent rs * size) + d)

-- ---- names: the first that is the same, and how many leaves stand before it

-- of a member, and what it consists of
pub data IsMember (name : List ℕ) : Members → ℕ → Composition → Type 0 where
  -- it is the first
  here : {other : List ℕ} {kind : VarKind} {c : Composition} {ms : Members} → is_word other name ≡ true → IsMember name (member other kind c ms) 0 c
  -- it stands behind a member with another name
  later : {other : List ℕ} {kind : VarKind} {c d : Composition} {ms : Members} {k : ℕ} → is_word other name ≡ false → IsMember name ms k d
      → IsMember name (member other kind c ms) (count c + k) d

-- of what has a name and so many leaves: an input or output of a standard block, or a step
pub data IsPart {A : Type 0} (name_of : A → List ℕ) (count_of : A → ℕ) (name : List ℕ) : List A → ℕ → Type 0 where
  -- it is the first
  first : {x : A} {xs : List A} → is_word (name_of x) name ≡ true → IsPart name_of count_of name (x ∷ xs) 0
  -- it stands behind one with another name
  behind : {x : A} {xs : List A} {k : ℕ} → is_word (name_of x) name ≡ false → IsPart name_of count_of name xs k → IsPart name_of count_of name (x ∷ xs) (count_of x + k)

-- an input or an output of a standard block
abbrev pub IsPin : List ℕ → StandardBlock → ℕ → Type 0
IsPin name b k = IsPart (λ p. p.name) (λ p. 1) name (pins_of b) k

-- a step of a chart, in the order of the text
abbrev pub IsStep : List ℕ → List ChartElement → ℕ → Type 0
IsStep name chart k = IsPart (λ s. s.name.spelling) step_count name (flat_map steps_in chart) k

-- ---- where a path leads: the number of the leaf

pub data LeadsTo : Composition → Path → ℕ → Type 0 where
  -- there is one value
  end : {v : Value} → LeadsTo (elementary v) [] 0
  -- into an element of an array
  element : {ranges : List Subrange} {firsts : List (Option Constant)} {c : Composition} {is : List ℤ} {path : Path} {d k : ℕ} → IsDistance (count c) ranges is d → LeadsTo c path k
      → LeadsTo (array ranges firsts c) (index is ∷ path) (d + k)
  -- into a member
  into : {whole name : List ℕ} {ms : Members} {chart : List ChartElement} {c : Composition} {path : Path} {d k : ℕ} → IsMember name ms d c → LeadsTo c path k
      → LeadsTo (composed whole ms chart) (field name ∷ path) (d + k)
  -- to an input or an output of a standard block
  pin : {b : StandardBlock} {name : List ℕ} {k : ℕ} → IsPin name b k → LeadsTo (standard b) (field name ∷ []) k
  -- to the flag of a step, behind the members and whether the chart has begun
  flag : {whole name x : List ℕ} {ms : Members} {chart : List ChartElement} {k : ℕ} → IsStep name chart k → is_word (codes "X") x ≡ true
      → LeadsTo (composed whole ms chart) (field name ∷ field x ∷ []) (counts ms + (1 + k))
  -- to the time of a step, behind its flag
  time : {whole name t : List ℕ} {ms : Members} {chart : List ChartElement} {k : ℕ} → IsStep name chart k → is_word (codes "T") t ≡ true
      → LeadsTo (composed whole ms chart) (field name ∷ field t ∷ []) (counts ms + (1 + (k + 1)))

-- ---- what follows

abbrev pub HasPath : Path → LeafIn → Type 0
HasPath path l = is_same_path path l.path ≡ true

-- there are as many leaves as counted
abbrev pub LeavesAreCounted : Type 0
LeavesAreCounted = (c : Composition) → (length (leaves_in c) ≡ count c) × (length (leaves_of_whole c) ≡ count c)

-- the leaf to which a path leads has this very path, in a part and in a whole program
abbrev pub PlacesAreNumbers : Type 0
PlacesAreNumbers = (c : Composition) (path : Path) (k : ℕ) → LeadsTo c path k
    → (k < count c) × (HoldsAt (HasPath path) (leaves_in c) k × HoldsAt (HasPath path) (leaves_of_whole c) k)
