-- Charts without names (2.6): the steps before and behind each transition, and what the steps do to the names that they are associated
-- with. Steps, transitions and names are numbers in the order of the text.
use Rattle.std.specs.Prelude.{ℕ, Bool, true, false, List, [], ◌∷◌, ◌++◌, length, map, Option}
use Rattle.st_values.specs.declared.elem.Elem.{Elem}
use Rattle.st_values.specs.declared.elem.Elem.TheVariants as elems
use Rattle.st_charts.specs.Passages.{Passage}
use Rattle.st_charts.specs.declared.table.Link.{Link}
use Rattle.st_leaves.specs.Charts.{step_types}

pub record Sketch : Type 0 where
  -- of each step whether it is associated with the qualifier P
  pub pulses : List Bool
  -- the transitions
  pub passages : List Passage
  -- the associations
  pub links : List Link
  -- of each associated name, in the order of the first association, the BOOL variable that it is, where it is one
  pub variables : List (Option (List ℕ))
  -- those of the associated names that some association has with the qualifier S, in their order
  pub stored : List ℕ
  -- the name of each action
  pub actions : List ℕ

-- ---- the types of its leaves

-- of its steps
abbrev pub steps_types : List Bool → List Elem
steps_types [] = []
steps_types (p ∷ pulses) = step_types p ++ steps_types pulses

-- of the names that are stored
abbrev pub flags_types : List ℕ → List Elem
flags_types stored = map (λ n. elems.Bool) stored

-- whether the chart has begun, its steps, and the names that are stored
abbrev pub chart_types : Sketch → List Elem
chart_types sketch = elems.Bool ∷ (steps_types sketch.pulses ++ flags_types sketch.stored)

-- how many leaves
abbrev pub chart_size : Sketch → ℕ
chart_size sketch = length (chart_types sketch)
