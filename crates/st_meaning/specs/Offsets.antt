-- How many leaves stand before a part of a whole (2.4.1).
use Rattle.std.specs.Prelude.{ℕ, ◌+◌, ◌*◌, ◌≤◌, Bool, true, false, List, [], ◌∷◌, if◌then◌else◌}
use Rattle.st_values.specs.Words.{is_word}
use Rattle.st_tree.specs.declared.tree.unit.Step.{Step}
use Rattle.st_types.specs.Compositions.{Composition, array, composed, standard, Members, none, member}
use Rattle.st_types.specs.Standard.{Pin, pins_of}
use Rattle.st_leaves.specs.Bounds.{HasBounds}
use Rattle.st_leaves.specs.Places.{count, counts, extent, step_count}
use Rattle.st_meaning.specs.Steps.{steps_within}

-- how many leaves stand before the first member of a name
abbrev pub member_offset : Members → List ℕ → ℕ
member_offset none name = 0
member_offset (member other kind c ms) name = if is_word other name then 0 else (count c + member_offset ms name)

abbrev pub pin_offset : List Pin → List ℕ → ℕ
pin_offset [] name = 0
pin_offset (p ∷ ps) name = if is_word p.name name then 0 else (1 + pin_offset ps name)

-- how many leaves stand before the part of a name
abbrev pub offset_of : Composition → List ℕ → ℕ
offset_of (composed name ms chart) n = member_offset ms n
offset_of (standard b) n = pin_offset (pins_of b) n
offset_of _ n = 0

-- how many leaves stand before those of its chart, which are the last ones
abbrev pub chart_offset : Composition → ℕ
chart_offset (composed name ms chart) = counts ms
chart_offset _ = 0

-- how many leaves stand before those of the first step of a name
abbrev pub step_offset : List Step → List ℕ → ℕ
step_offset [] name = 0
step_offset (s ∷ steps) name = if is_word s.name.spelling name then 0 else (step_count s + step_offset steps name)

-- the leaf that says of a step for how long it has been active, where this is TRUE, else whether it is
abbrev pub step_leaf : Composition → Bool → List ℕ → ℕ
step_leaf root false name = chart_offset root + (1 + step_offset (steps_within root) name)
step_leaf root true name = chart_offset root + (1 + (step_offset (steps_within root) name + 1))

-- ---- what code can tell apart

-- the elements of each array in a whole have at most 65,536 leaves together
abbrev mutual
  pub HasSmallArrays : Composition → Type 0
  HasSmallArrays (array ranges firsts c) = (extent ranges * count c ≤ 65536) × HasSmallArrays c
  HasSmallArrays (composed whole ms chart) = HaveSmallArrays ms
  HasSmallArrays _ = Unit {0}

  pub HaveSmallArrays : Members → Type 0
  HaveSmallArrays none = Unit {0}
  HaveSmallArrays (member name kind c ms) = HasSmallArrays c × HaveSmallArrays ms

-- Subscripts lie in the range of LINT, no array is large, and there are at most 999,999 leaves. The variables of an accepted program
-- are so, and those of each function that a text of 2 ^ 20 bytes has room for.
pub record IsSmall (c : Composition) : Type 0 where
  pub bounds : HasBounds c
  pub arrays : HasSmallArrays c
  pub few : count c ≤ 999999
